pub mod Lawful
pub mod PlainLists
pub mod Walking
