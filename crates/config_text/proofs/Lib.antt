pub mod ReadBack
pub mod Placed
pub mod Items
pub mod Trees
