-- What only the contracts of this crate's functions, and of the lister, are said with: the classes in a table, how the
-- code holds rules and classes, whether a rule has existential variables, and which atoms have no digit left. What they
-- mean is `unification`'s.
pub mod Table
pub mod InBytes
pub mod Unknowns
pub mod Stuck
