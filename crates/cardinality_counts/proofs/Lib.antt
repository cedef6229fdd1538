pub mod Countings
pub mod InOrder
pub mod Listing
pub mod Lists
pub mod CountLaws
pub mod OpenLaws
pub mod PartLaws
pub mod Tallies
