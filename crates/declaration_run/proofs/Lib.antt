pub mod Reading
pub mod Catalogs
pub mod Groups
pub mod Loops
