-- What each contract determines.
pub mod Determined
