pub mod Circuits
pub mod Value
pub mod Simplified
pub mod Gates
pub mod Same
pub mod Views
pub mod Gathering
pub mod Ordered
