pub mod TextLemmas
pub mod CallsLemmas
pub mod AcceptedLemmas
pub mod CheckedLemmas
