pub mod Small
pub mod Rounds
pub mod Conditions
pub mod Settling
pub mod Entries
