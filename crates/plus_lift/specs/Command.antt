-- What the claim of `run` stands on.
pub mod Again
pub mod Lift
-- Inner words.
pub mod Laws
