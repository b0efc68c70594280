-- What only the contracts of this crate's own functions are said with; that of `run` cites `exploration` alone.
pub mod Taking
pub mod Related
pub mod Exploring
pub mod Skipping
