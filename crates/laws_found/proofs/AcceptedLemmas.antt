pub mod Lifting
pub mod Few
pub mod Passing
pub mod Instances
pub mod Accepting
