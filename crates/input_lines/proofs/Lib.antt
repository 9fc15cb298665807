pub mod Marks
pub mod Cuts
pub mod Sessions
