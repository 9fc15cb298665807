pub mod Depth
pub mod Json
pub mod Names
pub mod Patterns
pub mod Truth
pub mod Unless
pub mod formers
