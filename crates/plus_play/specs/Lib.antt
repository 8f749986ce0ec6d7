pub mod Cut
pub mod Rules
pub mod Feeding
