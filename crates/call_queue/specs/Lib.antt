pub mod Order
pub mod Lines
pub mod Picking
pub mod Turns
pub mod Queues
