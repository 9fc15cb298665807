pub mod Numbers
pub mod Ordered
pub mod Following
pub mod Graphs
pub mod Plans
pub mod Ends
pub mod Planning
