pub mod Splitting
pub mod Minimal
pub mod Formula
pub mod Rules
pub mod Meaning
pub mod Nodes
