pub mod Entries
pub mod Shown
pub mod Index
pub mod Arena
pub mod Nearest
pub mod Packed
