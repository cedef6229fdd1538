pub mod Evidence
pub mod Searching
