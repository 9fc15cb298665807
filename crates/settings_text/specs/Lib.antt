pub mod Members
pub mod Entries
pub mod Aggregators
pub mod Limits
pub mod Faults
pub mod Reading
