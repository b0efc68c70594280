-- The laws of the stored book, for the code of `book` and for the layers above.

-- the two forms of a book
pub mod Forms
-- where rules start; a search for the earliest place; what each number's search finds
pub mod After
pub mod Earliest
pub mod Found
pub mod FoundQuestion
pub mod Ranges
pub mod Conditions
pub mod ByteConditions
-- the verdict is exact
pub mod Exact
-- what a sound book gives; how it is read; it keeps to its own numbers
pub mod Known
pub mod SoundBook
pub mod SoundQuestion
pub mod Reading
pub mod QuestionRead
pub mod Fits
-- 01's printed book, a small one with answer places, and one in the new form
pub mod Example
pub mod AnswerExample
pub mod NewExample
-- a book as it is written: bytes at a place, words there and back; what is read of it again; how long it is, and that it
-- is bytes; a sound book keeps to what its form allows, and is written again as it was
pub mod AtPlace
pub mod WordBytes
pub mod WrittenHeader
pub mod WrittenAtoms
pub mod WrittenRules
pub mod WrittenQuestion
pub mod WrittenRead
pub mod WrittenSize
pub mod WrittenBytes
pub mod BookFit
pub mod BookBack
-- copying from form to form: what has no old form, and where; the copies
pub mod Blocks
pub mod OldForm
pub mod PlacedTerms
pub mod NeedsNewForm
pub mod OldFormExact
pub mod CopyCases
pub mod Copies
pub mod NewCopy
pub mod CopyExample
-- what is told of a book determines the result
pub mod ToldOnce
