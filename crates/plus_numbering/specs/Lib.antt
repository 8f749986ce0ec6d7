pub mod Tables
pub mod Numbered
pub mod Refusals
pub mod Sizes
pub mod Tested
