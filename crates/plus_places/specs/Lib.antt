-- What the claim of `run` stands on.
pub mod Place
-- Inner words.
pub mod Table
