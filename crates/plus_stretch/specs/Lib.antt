-- What the claim of `run` stands on.
pub mod Tests
pub mod Crossings
pub mod StretchTests
-- Inner words.
pub mod Laws
pub mod Told
pub mod After
pub mod Thinned
pub mod Collected
pub mod Here
pub mod Arrives
pub mod Among
pub mod Marked
pub mod Least
pub mod Skips
