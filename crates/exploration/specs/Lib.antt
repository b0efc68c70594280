-- What a reader must believe of the exploration, in the order in which to read it.
pub mod Run
pub mod Steps
pub mod Union
pub mod Answer
pub mod Refusals
pub mod Chain
pub mod Rows
pub mod Examples
pub mod Others
-- What only contracts of the code above are said with; the demands do not need it.
pub mod Held
pub mod Standing
