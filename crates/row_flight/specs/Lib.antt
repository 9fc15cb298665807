pub mod Attempts
pub mod Rows
pub mod Flying
pub mod Pooled
pub mod Hearing
pub mod Laws
pub mod Jobs
pub mod Dues
