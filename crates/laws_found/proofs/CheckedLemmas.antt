pub mod Steps
pub mod Said
pub mod Few
pub mod Written
