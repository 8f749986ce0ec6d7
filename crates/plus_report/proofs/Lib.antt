pub mod ReportLemmas
pub mod RowsHold
pub mod PutsLemmas
pub mod TextLemmas
pub mod LineLemmas
pub mod ListedLemmas
pub mod ChangedLemmas
