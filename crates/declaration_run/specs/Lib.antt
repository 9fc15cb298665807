pub mod Declaring
pub mod Read
