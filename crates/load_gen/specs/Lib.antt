pub mod Asked
pub mod Generated
pub mod Rows
pub mod Summary
pub mod Table
