pub mod Forms
mod Keys
pub mod More
