pub mod ReplyLemmas
pub mod PairLemmas
