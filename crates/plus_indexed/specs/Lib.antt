pub mod Woken
pub mod Indexed
pub mod IndexedCode
pub mod Waking
pub mod Knows
pub mod Moving
