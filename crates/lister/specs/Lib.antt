-- What only the contracts of this crate's functions, and of the code above, are said with: the table of counts, the
-- builder, and how the code holds what is asked and answered. What `next` gives is `unification`'s.
pub mod Counts
pub mod Build
pub mod Leaving
pub mod Hopeless
pub mod Listing
pub mod FirstDigits
