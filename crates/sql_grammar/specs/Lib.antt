pub mod Language
pub mod Reading
pub mod Says
pub mod Grammar
pub mod Parser
pub mod Theorem
pub mod Gives
pub mod Answer
