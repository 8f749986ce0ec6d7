-- What the claim of `run` stands on.
pub mod Words
pub mod Canon
-- Inner words.
pub mod Appended
