pub mod DivisorLemmas
pub mod FracLemmas
pub mod TicksLemmas
