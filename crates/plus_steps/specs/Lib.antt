-- What the claim of `run` stands on.
pub mod Stepped
pub mod Numeric
pub mod Translation
pub mod Laws
-- Inner words.
pub mod Rows
