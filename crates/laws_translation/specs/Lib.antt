pub mod Laws
pub mod Depth
pub mod Typed
pub mod Plans
pub mod Read
pub mod Same
pub mod Runs
