pub mod PlaceLemmas
pub mod DecisionLemmas
pub mod RefusedLemmas
pub mod NarrowLemmas
pub mod AnswersLemmas
pub mod MayLemmas
