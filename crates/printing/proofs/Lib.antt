-- The laws of printing.

-- what is put into a text; numbers in decimal; terms, atoms and members
pub mod Adding
pub mod Decimal
pub mod Texts
-- the whole: what is printed for an answer
pub mod Results
-- how long it can be; from a book's answer to what is printed for it
pub mod Longest
pub mod Answered
-- determined; 01's printed book
pub mod Determined
pub mod Examples
