pub mod Valueless
pub mod Accepting
