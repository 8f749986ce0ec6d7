pub mod Playing
pub mod Standing
pub mod Failing
pub mod Members
