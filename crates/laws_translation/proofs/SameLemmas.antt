pub mod Bare
pub mod Meaning
pub mod Typing
pub mod SameLaws
