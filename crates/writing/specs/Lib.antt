-- What only the contracts of this crate's functions, and of the code above, are said with: a union's bytes as they are
-- made from what is held. What a union's bytes are is `exploration`'s.
pub mod Uncounted
