-- What the claim of `run` stands on.
pub mod Labels
pub mod Text
pub mod Report
pub mod Refusals
pub mod Verdicts
pub mod Plans
pub mod Statuses
-- Inner words.
pub mod ReportLaws
pub mod Rows
pub mod Shown
pub mod Puts
pub mod Wrote
