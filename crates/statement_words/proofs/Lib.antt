pub mod Advancing
pub mod Courses
pub mod Going
pub mod Stops
pub mod Turning
