pub mod NumeralLemmas
pub mod ScopeLemmas
pub mod SoFar
