pub mod TextLemmas
pub mod DepthLemmas
pub mod TypedLemmas
pub mod PrintedLaws
pub mod ReadLaws
pub mod SameLemmas
pub mod RunLemmas
