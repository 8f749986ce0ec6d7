pub mod Cutting
pub mod Once
pub mod Answers
pub mod Lost
pub mod Marks
pub mod Laws
