pub mod FarmLemmas
pub mod CommandLemmas
