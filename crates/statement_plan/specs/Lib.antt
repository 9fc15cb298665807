pub mod Conjuncts
pub mod Columns
pub mod Reading
pub mod Placed
pub mod Sources
pub mod Plans
