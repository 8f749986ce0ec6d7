pub mod Text
pub mod Calls
pub mod Passing
pub mod Room
