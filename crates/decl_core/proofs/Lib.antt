pub mod TablesSoFar
pub mod ReadOneByOne
pub mod Leftovers
pub mod Unknowns
