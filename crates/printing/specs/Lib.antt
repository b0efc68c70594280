-- What a reader must believe of the printing, in the order in which to read it.
pub mod Printed
pub mod Answer
pub mod Examples
-- What only the contracts of this crate's own functions are said with.
pub mod Text
pub mod Printable
