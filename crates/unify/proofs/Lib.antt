-- The laws that the functions of unification cite.

-- the classes in a table of bytes, changed entry by entry; atoms put on atoms
pub mod Each
pub mod TableBytes
pub mod Joins
-- the code's tests of terms, and of validity
pub mod EachTerm
pub mod ValidTests
pub mod StuckBytes
-- what each contract determines
pub mod Determined
