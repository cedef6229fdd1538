pub mod Gates
pub mod Counts
