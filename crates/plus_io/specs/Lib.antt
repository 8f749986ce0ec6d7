-- What the claim of `run` stands on.
pub mod Limits
pub mod Faults
pub mod Files
pub mod Picks
pub mod Taken
-- Inner words.
pub mod Stored
pub mod Named
pub mod MemShelf
pub mod QuietShelf
pub mod MemSink
