-- What the claim of `run` stands on.
pub mod Tests
pub mod Asked
pub mod Grid
-- Inner words.
pub mod Told
pub mod Never
pub mod Laws
pub mod Stops
pub mod Ticks
pub mod Moving
pub mod Coming
pub mod Steps
