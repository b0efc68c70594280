-- The laws that the exploration's functions cite: of the records handed on, of what a turn of each loop keeps, of what
-- each return shows.
pub mod Records
-- the next rewriting, and those yet to come
pub mod Among
pub mod RelatedRules
pub mod Coming
-- choices passed over; one member explored; the run
pub mod PassedOver
pub mod Onward
pub mod Turn
pub mod Running
-- what the whole run shows at its returns
pub mod Endings
-- what it determines
pub mod Determined
pub mod Demanded
