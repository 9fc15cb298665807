pub mod Known
pub mod Script
pub mod Sources
