pub mod LiftLemmas
pub mod TimeLemmas
pub mod OverflowLemmas
pub mod OneLift
pub mod CommandLemmas
