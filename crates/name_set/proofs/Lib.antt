pub mod Keys
pub mod Insertions
