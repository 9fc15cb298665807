pub mod Choosing
pub mod OnlySubset
pub mod Readiness
pub mod Steps
