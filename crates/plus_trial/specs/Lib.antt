-- What the claim of `run` stands on.
pub mod Farm
pub mod Summary
pub mod Trial
