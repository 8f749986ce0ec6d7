-- What the claim of `run` stands on.
pub mod Cut
pub mod Reading
pub mod Grammar
pub mod Spells
pub mod Lines
pub mod TimeValue
-- Inner words.
pub mod Place
pub mod Ahead
pub mod Answers
pub mod Pending
pub mod Pieces
pub mod Held
pub mod Given
