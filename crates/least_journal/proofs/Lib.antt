pub mod Counts
pub mod Smallest
pub mod Sizing
mod Samples
