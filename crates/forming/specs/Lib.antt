-- What only the contracts of this crate's own functions, and of the code above, are said with: how a form is built.
pub mod Building
