pub mod RoundRows
pub mod ConditionRows
pub mod SettleRows
pub mod EntryRows
