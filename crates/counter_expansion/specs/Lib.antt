pub mod Finding
pub mod Gates
pub mod Counters
pub mod WrittenOut
pub mod Passing
