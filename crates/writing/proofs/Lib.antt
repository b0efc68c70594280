-- What the functions of this crate cite: members put one after the other.
pub mod Members
