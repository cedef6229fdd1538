pub mod Left
pub mod Telling
pub mod Able
pub mod Heads
pub mod Sides
pub mod Below
pub mod Fills
pub mod Says
pub mod Covered
pub mod Minimal
pub mod Whole
pub mod Least
pub mod Alone
pub mod InOrder
pub mod Evidence
pub mod Ranges
pub mod Found
mod Samples
