-- What a reader must believe of the stored book, in the order in which to read it.
pub mod Word
pub mod Header
pub mod Book
pub mod Refusals
pub mod Refusal
pub mod Told
pub mod Verdict
pub mod Written
pub mod Copy
