pub mod Trial
pub mod Tree
