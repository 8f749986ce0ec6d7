-- What the claim of `run` stands on.
pub mod Plan
pub mod Planning
-- Inner words.
pub mod Laws
