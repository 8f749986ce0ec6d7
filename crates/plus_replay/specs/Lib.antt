pub mod Replay
pub mod ReplayRules
pub mod Member
