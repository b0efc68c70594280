-- The laws of the exploration, for this crate's proofs and for the crates above.

-- rewritings are small
pub mod Small
-- one admission; the next rewriting; the run in single steps and where it ends
pub mod Admits
pub mod YetToCome
pub mod Turns
pub mod Dropping
pub mod Ends
-- what holds wherever the run comes to, and what a complete run leaves
pub mod States
pub mod Invariant
pub mod Covered
pub mod Left
pub mod Raised
-- demand 3 over lists, and for each row; the run of a sound book
pub mod Derived
pub mod RowFacts
pub mod BesideRow
pub mod RowsOf
pub mod RowExample
pub mod OfBook
-- how a question that is taken up is rewritten
pub mod Explored
-- the union as bytes
pub mod HeldBytes
pub mod UnionBytes
pub mod Members
pub mod Standing
-- refuses exactly; what follows from the contract
pub mod Refused
pub mod Returns
pub mod Given
-- the two forms of a book
pub mod Alike
-- the three demands
pub mod Demands
pub mod Examples
