-- What the claim of `run` stands on.
pub mod Fired
pub mod Steps
-- Inner words.
pub mod Rounds
pub mod Laws
