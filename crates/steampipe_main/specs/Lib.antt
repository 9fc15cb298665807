pub mod Lines
pub mod Piped
