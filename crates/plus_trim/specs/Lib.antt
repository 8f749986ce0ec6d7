-- What trimming answers.
pub mod Acts
pub mod Judging
pub mod Trimmed
pub mod Laws
-- Inner words.
pub mod Standing
pub mod Work
