pub mod Quieting
pub mod Present
pub mod Knowing
pub mod Beginning
pub mod MovingLemmas
