pub mod RowTruth
pub mod RowOrder
pub mod RowJoins
pub mod RowShown
