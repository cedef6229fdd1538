pub mod Staying
pub mod Search
pub mod Outcomes
