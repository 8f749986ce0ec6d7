pub mod Failing
pub mod Lines
pub mod Ways
pub mod Behind
pub mod Acted
pub mod Working
pub mod Marking
pub mod Round
