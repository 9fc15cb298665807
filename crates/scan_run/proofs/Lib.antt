pub mod Calling
pub mod Scanning
pub mod Serving
pub mod States
