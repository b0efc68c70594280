-- What only the contracts of this crate's own functions are said with. What a copy is, is `reading`'s.
pub mod Ready
pub mod Late
