pub mod PassedOrTaken
pub mod Sets
