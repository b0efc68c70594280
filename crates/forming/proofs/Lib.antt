-- The laws that the functions of this crate cite.

-- an atom's bytes; a record that grows atom by atom
pub mod AtomBytes
pub mod Growing
-- a form is built from left to right
pub mod Leftward
pub mod Renaming
pub mod Passing
-- what each contract determines
pub mod Determined
