-- What a slice is filled with, a number in bytes, and how much of a book is looked at.
pub mod Filled
pub mod Number
pub mod Looked
