pub mod Causes
pub mod Reading
pub mod Writing
pub mod Files
pub mod Memories
pub mod Log
pub mod BookLog
pub mod ChildState
