-- Books one after the other, and what is written for them.
pub mod Batch
