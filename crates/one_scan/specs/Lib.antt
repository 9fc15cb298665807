pub mod Views
pub mod Jobs
pub mod Forms
pub mod Scans
pub mod Waiting
pub mod Runs
