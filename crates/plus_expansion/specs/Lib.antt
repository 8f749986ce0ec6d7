-- What the claim of `run` stands on.
pub mod Objects
pub mod Numbers
pub mod Counts
pub mod Environments
pub mod Expansion
pub mod Calls
pub mod Nodes
pub mod Literals
pub mod Counting
pub mod Unfit
-- Inner words.
pub mod Laws
