-- The laws that the functions of covering cite.

-- parts of the bytes: an atom's places, an atom, the atoms still to place
pub mod Parts
pub mod Rest
-- the map as the code holds it; the search, a candidate and an atom at a time
pub mod Maps
pub mod Sent
pub mod Meeting
-- the same of an atom's places where they stand among other bytes
pub mod SentFrom
pub mod Ahead
pub mod SearchSteps
pub mod Turns
pub mod Leads
-- the desk's answers
pub mod Told
-- what each contract determines
pub mod Determined
