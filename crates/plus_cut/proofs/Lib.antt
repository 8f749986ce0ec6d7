pub mod CutAnswers
pub mod Delegating
pub mod Once
pub mod LostLemmas
pub mod MarkLemmas
pub mod LosingLemmas
