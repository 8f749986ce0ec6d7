pub mod Beginnings
pub mod ByStatus
pub mod Complete
pub mod Chained
pub mod Existing
pub mod Lifted
pub mod Lines
pub mod Named
