pub mod Documents
pub mod EntriesSoFar
pub mod Pairs
