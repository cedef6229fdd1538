pub mod Groups
pub mod Occurrences
pub mod Rising
pub mod Counted
pub mod Named
pub mod Kept
