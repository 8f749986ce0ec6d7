pub mod TrialLemmas
pub mod OneReply
