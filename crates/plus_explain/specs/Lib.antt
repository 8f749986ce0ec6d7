pub mod Place
pub mod Marked
pub mod Reasons
