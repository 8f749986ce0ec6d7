pub mod Parts
pub mod Driving
