-- What only the contracts of this crate's functions are said with. That of `check` cites `reading` alone.
pub mod Parts
