-- The laws that the functions which judge a book cite.
pub mod JudgingSteps
pub mod AnswerSteps
pub mod JudgedHeader
pub mod FirstFound
pub mod Taken
