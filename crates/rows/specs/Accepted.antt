pub mod Fires
pub mod Worked
