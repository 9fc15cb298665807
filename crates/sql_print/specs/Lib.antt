pub mod Said
pub mod Placeless
pub mod Spelling
pub mod Page
pub mod Again
