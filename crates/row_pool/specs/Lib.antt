pub mod Pools
pub mod Lends
