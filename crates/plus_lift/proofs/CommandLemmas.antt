pub mod AgainLemmas
pub mod CallsLemmas
pub mod LiftLemmas
pub mod OneReply
