pub mod Looks
pub mod Greatest
pub mod Changes
pub mod Unmet
