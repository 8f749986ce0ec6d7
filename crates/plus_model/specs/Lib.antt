-- What the claim of `run` stands on.
pub mod Terms
pub mod Value
pub mod Joint
pub mod Firing
pub mod Running
pub mod Plan
pub mod History
pub mod Trajectory
pub mod Breach
pub mod Laws
pub mod Piece
pub mod Live
-- Inner words.
pub mod Codes
