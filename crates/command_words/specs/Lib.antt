pub mod Matched
pub mod Taken
pub mod Words
