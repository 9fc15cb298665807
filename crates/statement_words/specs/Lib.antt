pub mod Advances
pub mod Answered
pub mod Course
pub mod Ended
pub mod Laws
pub mod Noted
pub mod Runs
pub mod Turns
