-- What follows of a filled slice for the bytes that a reader had.
pub mod Filled
