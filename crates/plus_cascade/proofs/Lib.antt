pub mod FiredLemmas
pub mod FiringLemmas
pub mod StepsLemmas
pub mod RoundLemmas
pub mod SetLemmas
