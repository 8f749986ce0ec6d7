-- What the claim of `run` stands on.
pub mod Grid
pub mod Translates
-- Inner words.
pub mod Atoms
pub mod Dues
pub mod Fires
pub mod Found
pub mod Parts
pub mod Placed
pub mod Single
