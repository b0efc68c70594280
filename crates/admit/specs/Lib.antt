-- What only the contracts of this crate's functions, and of the code above, are said with: how the working array holds a
-- run's state. What admitting is, is `exploration`'s.
pub mod WorkingArray
pub mod Sets
