-- The laws of one-step rewritings, for the code of `unify` and for the layers above.

-- lists, pairs of terms, choices, moved rules
pub mod Collected
pub mod Pairs
pub mod Choices
pub mod Moved
-- the classes are the least; validity, and 01's words for it; which term stands for a class does not matter
pub mod Classes
pub mod Valid
pub mod Invalid
pub mod Means
pub mod Representatives
-- the list of rewritings: what stands in it, in which order, from a number on, how large; k does not matter
pub mod Listed
pub mod Numbers
pub mod Following
pub mod Sizes
pub mod Renamed
pub mod Shift
-- choices that go on from a prefix, and what covers the rewritings of them all
pub mod Extending
pub mod Prefix
-- a step is sound and complete for rule application
pub mod StepSound
pub mod StepComplete
-- questions with answer places
pub mod AnswerRecord
pub mod Unrelated
pub mod ShapeKept
pub mod AnswerSizes
-- the list is exactly the published one
pub mod Puts
pub mod Pieces
pub mod Hits
pub mod Unifiers
pub mod Selected
pub mod Digits
pub mod Exactly
-- the paper's and the sources' examples
pub mod Examples
