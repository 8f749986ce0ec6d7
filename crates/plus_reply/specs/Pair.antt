-- What the claim of `run` stands on.
pub mod Pair
-- Inner words.
pub mod Reads
