-- What the claim of `run` stands on.
pub mod Types
pub mod Faults
-- Inner words.
pub mod Listed
pub mod Known
pub mod Ranks
pub mod Jumps
