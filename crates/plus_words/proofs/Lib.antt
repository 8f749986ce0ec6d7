pub mod NumberLemmas
pub mod DigitsLemmas
