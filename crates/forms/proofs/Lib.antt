-- What the functions of this crate cite: bytes, words, rules and a whole book put one after the other; the search for
-- what has no old form; and what becomes of a copy.
pub mod Headed
pub mod Steps
pub mod Rules
pub mod Whole
pub mod LateSteps
pub mod Outcome
-- what each contract determines
pub mod Determined
