mod LimitSamples
pub mod EntryLaws
pub mod ArenaLaws
pub mod RemovalLaws
pub mod StoreLaws
pub mod PackedLaws
pub mod MovingLaws
