-- What the claim of `run` stands on.
pub mod Steps
pub mod Rates
pub mod Members
pub mod Confirms
pub mod Settles
-- Inner words.
pub mod Laws
pub mod Among
pub mod Uncoupled
pub mod Still
