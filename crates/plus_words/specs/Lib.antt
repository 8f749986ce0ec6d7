-- What the claim of `run` stands on.
pub mod Numbers
pub mod Interval
