pub mod Pairs
pub mod Making
