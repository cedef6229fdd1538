pub mod Files
pub mod Spans
pub mod Left
pub mod Room
pub mod LentDesk
pub mod EndlessDesk
