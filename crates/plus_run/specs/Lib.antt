-- What the claim of `run` stands on.
pub mod Command
pub mod Checks
pub mod Shown
pub mod Numeric
pub mod Headline
pub mod Stopping
pub mod Laws
-- Inner words.
pub mod Meant
