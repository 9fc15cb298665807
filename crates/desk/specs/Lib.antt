pub mod Events
pub mod Found
pub mod Posted
pub mod States
