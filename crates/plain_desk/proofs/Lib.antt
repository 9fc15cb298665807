pub mod Granting
pub mod Hearing
pub mod Losses
pub mod Owning
pub mod Places
pub mod Slots
pub mod Stills
