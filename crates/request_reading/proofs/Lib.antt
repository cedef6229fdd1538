mod LimitSamples
pub mod Unions
pub mod Cuts
pub mod Readings
pub mod Meanings
pub mod Trials
