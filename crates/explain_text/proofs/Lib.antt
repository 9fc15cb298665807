pub mod Alikes
pub mod Sounds
pub mod Founds
pub mod Parts
pub mod Lined
pub mod MoreBlocks
pub mod Refusing
