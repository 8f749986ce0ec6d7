pub mod Tokens
pub mod Canon
pub mod Reading
pub mod Lines
