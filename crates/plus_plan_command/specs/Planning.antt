-- What the claim of `run` stands on.
pub mod Lines
pub mod Planned
