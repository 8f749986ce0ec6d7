pub mod Escaped
pub mod Writing
