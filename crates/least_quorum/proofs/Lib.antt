pub mod StayingLaws
pub mod Fewer
pub mod Falling
pub mod Lines
pub mod Listings
pub mod Shown
pub mod Found
pub mod LastLaws
