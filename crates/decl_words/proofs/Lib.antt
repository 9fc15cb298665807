pub mod Lists
pub mod Names
pub mod Functions
pub mod Orders
pub mod Resting
pub mod TablesPass
pub mod Soundness
