-- What the claim of `run` stands on.
pub mod Acts
pub mod Trim
-- Inner words.
pub mod Lines
pub mod Playable
pub mod Laws
