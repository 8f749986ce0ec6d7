-- What the claim of `run` stands on.
pub mod Lifts
pub mod Command
