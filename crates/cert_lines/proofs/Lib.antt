mod LimitSamples
pub mod Ends
pub mod Fronts
pub mod PieceCuts
pub mod Takings
pub mod Cuts
pub mod WordLaws
pub mod StepStarts
pub mod ProofStarts
