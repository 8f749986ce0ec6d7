pub mod Calls
pub mod Plans
pub mod Decided
pub mod Searched
