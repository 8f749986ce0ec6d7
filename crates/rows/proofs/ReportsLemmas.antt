pub mod LineRows
pub mod MomentRows
