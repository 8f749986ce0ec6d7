pub mod CountingLemmas
pub mod NamesLemmas
pub mod MeantLemmas
pub mod InstancesLemmas
