pub mod PartLaws
pub mod WordSteps
pub mod SpelledLaws
mod LimitSamples
