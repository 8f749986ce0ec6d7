pub mod Called
pub mod Grounded
pub mod Within
pub mod Plain
pub mod Spelled
pub mod Saying
pub mod Deciding
pub mod Searched
