-- What the claim of `run` stands on.
pub mod Groups
pub mod Forms
pub mod Parentheses
pub mod Counts
pub mod Wholes
pub mod Texts
-- Inner words.
pub mod Laws
pub mod Rows
