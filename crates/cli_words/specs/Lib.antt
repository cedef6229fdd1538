pub mod Budget
pub mod Formula
pub mod Numbers
pub mod Order
pub mod Organisations
pub mod Table
pub mod Usage
pub mod Words
