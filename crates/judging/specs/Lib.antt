-- What only the contracts of this crate's functions, and of the code above, are said with.
pub mod Judged
pub mod Forms
pub mod Found
