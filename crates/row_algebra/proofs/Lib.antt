pub mod TruthLaws
pub mod Sorting
pub mod RowOrders
pub mod AloneLaws
pub mod ShownLaws
