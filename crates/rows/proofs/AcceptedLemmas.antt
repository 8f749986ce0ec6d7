pub mod FiresRows
pub mod PairRow
pub mod WorkedRows
