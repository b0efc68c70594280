-- The laws of covering and of the member record, for the code of `cover` and for the layers above.

-- tests, lists, parts of a buffer; terms
pub mod Tests
pub mod Lists
pub mod Slices
pub mod Terms
-- covering is a preorder, the search decides it, and its map is the first
pub mod Preorder
pub mod Decides
pub mod First
pub mod FirstMap
pub mod OneFirst
pub mod Local
pub mod Relations
-- the form of a question
pub mod Form
pub mod Sifted
pub mod SameForm
pub mod FormSizes
-- a record's bytes: place by place, atom by atom, copied, as long as they are, there and back
pub mod Bytes
pub mod Places
pub mod EachAtom
pub mod Copied
pub mod Lengths
pub mod RoundTrip
pub mod Begun
-- what fits a record; another layout
pub mod Fitting
pub mod Wider
-- questions with answer places
pub mod Asked
pub mod Shaped
pub mod AnswerVariables
pub mod Always
-- the desk's answers and limits; examples
pub mod DeskRecords
pub mod AskingTrip
pub mod AnsweredCovers
pub mod Answers
pub mod Limits
pub mod Examples
-- records and atoms in a buffer, bytes put there, atoms with another number of places
pub mod Padded
pub mod Within
pub mod Putting
pub mod Widths
