pub mod AppendedLemmas
