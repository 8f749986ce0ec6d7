-- What the claim of `run` stands on.
pub mod Actions
