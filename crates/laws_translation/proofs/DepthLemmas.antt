pub mod Within
pub mod Depths
pub mod Bare
pub mod Parts
pub mod DepthLaws
