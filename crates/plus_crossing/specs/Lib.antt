-- What the claim of `run` stands on.
pub mod Asked
pub mod Pieces
pub mod Roots
pub mod Conds
pub mod Next
pub mod Listed
pub mod Moves
-- Inner words.
pub mod Rated
pub mod Motions
pub mod Laws
