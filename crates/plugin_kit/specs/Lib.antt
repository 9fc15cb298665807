pub mod Lines
pub mod Replies
pub mod Said
pub mod Serving
pub mod Steps
