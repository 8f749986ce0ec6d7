pub mod Powers
pub mod Reduced
