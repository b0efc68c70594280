-- Bytes that are read for nothing; a batch answered as far as it goes.
pub mod Skipping
pub mod Sofar
