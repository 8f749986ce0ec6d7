pub mod Constraints
pub mod Told
