pub mod Explaining
pub mod Loading
pub mod Reading
pub mod Running
pub mod Shown
