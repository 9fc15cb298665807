pub mod Parts
pub mod Fronts
pub mod Cuts
pub mod Renaming
pub mod Own
