mod Beginning
pub mod Pooling
pub mod Naming
pub mod Given
pub mod Going
pub mod Heard
pub mod Viewing
pub mod Stepping
pub mod Answering
pub mod ListedCalls
pub mod ListedRows
pub mod Soonest
pub mod Fresh
pub mod FirstRow
