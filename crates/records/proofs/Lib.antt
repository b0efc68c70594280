-- What the functions of this crate cite beside the laws of `covering`: atoms copied one after the other; a
-- record copied; sets of relations; looking for a term.
pub mod Onward
pub mod Copied
pub mod Among
pub mod Part
pub mod AtomsPut
pub mod Desk
pub mod Each
pub mod Finding
pub mod Holding
pub mod Determined
