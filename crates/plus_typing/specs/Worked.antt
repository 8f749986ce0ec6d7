pub mod Words
pub mod Typing
