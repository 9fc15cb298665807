pub mod Journal
pub mod Limits
pub mod Tags
pub mod Held
pub mod Keys
pub mod Instances
pub mod Asking
