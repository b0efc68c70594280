-- The laws that the functions of admitting cite.

-- the working array that holds a state, and the search in it
pub mod Holding
pub mod Finding
pub mod Stand
pub mod Beside
-- removing; admitting
pub mod Removal
pub mod Array
pub mod Fates
pub mod First
