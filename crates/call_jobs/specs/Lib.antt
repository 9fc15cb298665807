pub mod Jobs
pub mod Lawful
