pub mod Clauses
pub mod Lines
pub mod Listings
pub mod Shown
