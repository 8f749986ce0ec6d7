-- What the claim of `run` stands on.
pub mod Refusals
-- Inner words.
pub mod Chains
pub mod Entered
pub mod Nothing
