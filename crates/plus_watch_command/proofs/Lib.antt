pub mod Reading
pub mod Replying
