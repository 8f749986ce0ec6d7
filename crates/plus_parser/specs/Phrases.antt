-- What the claim of `run` stands on.
pub mod Reading
pub mod Words
pub mod Literals
pub mod Grammar
pub mod Spells
-- Inner words.
pub mod Listings
