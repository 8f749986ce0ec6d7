-- What the claim of `run` stands on.
pub mod Grid
pub mod Standing
pub mod Places
pub mod Listing
pub mod Searches
-- Inner words.
pub mod Laws
pub mod Kin
pub mod Tried
pub mod Once
pub mod Worlds
