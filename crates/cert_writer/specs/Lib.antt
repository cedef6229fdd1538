pub mod Texts
pub mod Writing
pub mod Promises
pub mod Finding
pub mod Listing
pub mod Least
pub mod Grouping
pub mod Content
