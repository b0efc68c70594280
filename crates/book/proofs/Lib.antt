-- The laws that the functions of the stored book cite.
pub mod Stores
-- what each contract determines
pub mod Determined
