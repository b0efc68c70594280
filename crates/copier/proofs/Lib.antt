-- No refusal of a copy has the number 0; what is written of a copy, and of the book that a reader gives.
pub mod Numbered
pub mod Told
