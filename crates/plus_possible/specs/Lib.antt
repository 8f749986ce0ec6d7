pub mod Possible
pub mod Laws
