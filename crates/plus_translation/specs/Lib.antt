-- What the claim of `run` stands on.
pub mod Names
pub mod Renamed
pub mod Leaves
pub mod Translated
pub mod Depth
pub mod Laws
-- Inner words.
pub mod Rows
