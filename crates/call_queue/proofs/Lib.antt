pub mod ByDue
pub mod Holding
pub mod Picks
pub mod Naming
