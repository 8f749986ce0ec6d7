pub mod Effects
pub mod Lines
pub mod Sets
pub mod Histories
pub mod JustAfter
pub mod Moments
pub mod Lists
