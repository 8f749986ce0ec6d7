pub mod Depot
pub mod Ground
pub mod Counts
