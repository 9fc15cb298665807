pub mod Words
pub mod Conditions
pub mod Functions
pub mod Lines
pub mod Alike
pub mod Explained
pub mod Blocks
