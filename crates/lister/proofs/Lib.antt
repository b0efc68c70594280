-- The laws that the lister's functions cite.

-- the builder and its table do what the definitions say
pub mod Counts
pub mod NumberFrom
pub mod Build
pub mod Carried
pub mod Table
-- what the code holds in bytes
pub mod Entries
pub mod Prefixes
pub mod Halves
pub mod RewritingBytes
pub mod LeftAtoms
pub mod LeftByBits
pub mod Asked
pub mod Pruned
pub mod Stuck
pub mod Answers
pub mod Digits
pub mod OneDigit
pub mod FirstDigits
pub mod WhatIsSettled
pub mod Unmet
-- a sound book gives what the lister asks for; any two results of a contract are equal
pub mod FromBook
pub mod Determined
