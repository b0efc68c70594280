-- What only the contracts of this crate's own functions, and of the code above, are said with: how the search goes from
-- candidate to candidate, and how it holds the map so far; and how the search desk's answers are numbered. Its contracts
-- cite `covering` besides.
pub mod Candidates
pub mod HeldMap
pub mod Rest
-- The desk's answers as 01 and 02 number them.
pub mod Told
