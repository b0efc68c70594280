-- What is written of a copy.
pub mod Told
