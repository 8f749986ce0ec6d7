pub mod WalkedLemmas
pub mod Counting
pub mod Meaning
pub mod AsGoal
