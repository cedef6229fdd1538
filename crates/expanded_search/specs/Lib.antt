pub mod Named
pub mod Moved
pub mod Beside
pub mod Found
pub mod Carriers
pub mod Finding
