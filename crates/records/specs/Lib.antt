-- What only the contracts of this crate's own functions, and of the code above, are said with.
pub mod Relations
pub mod Holding
