pub mod Outline
pub mod Ahead
pub mod Wants
pub mod Solid
pub mod Said
