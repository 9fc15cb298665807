pub mod Telling
pub mod Distinct
pub mod Asking
pub mod SameUnits
pub mod Planned
pub mod Collecting
pub mod Asked
