-- What the claim of `run` stands on.
pub mod Level
pub mod Calls
pub mod Tests
pub mod Asked
pub mod Verdicts
pub mod Answers
-- Inner words.
pub mod Playing
pub mod PlayRules
pub mod Telling
pub mod Streaming
pub mod Refusing
pub mod Laws
