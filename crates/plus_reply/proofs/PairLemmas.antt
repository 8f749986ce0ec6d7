pub mod LawLemmas
pub mod PairLemmas
pub mod SpelledLemmas
pub mod TextLemmas
pub mod OnePair
