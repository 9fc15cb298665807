pub mod Grants
pub mod Hearing
pub mod Lost
pub mod Slots
