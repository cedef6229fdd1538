pub mod Groups
pub mod Rules
pub mod Marking
pub mod Tests
