-- What the claim of `run` stands on.
pub mod Statuses
pub mod Reply
pub mod Pair
