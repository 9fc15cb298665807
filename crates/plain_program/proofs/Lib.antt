pub mod Cells
pub mod Hydrating
pub mod Settles
pub mod Versions
pub mod Walks
