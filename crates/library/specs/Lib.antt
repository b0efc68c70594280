-- What the contracts of the exports are said with, beside the definitions of the operations themselves.
pub mod Lent
