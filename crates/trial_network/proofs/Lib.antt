mod LimitSamples
pub mod NodeNames
pub mod InOrder
pub mod Limits
pub mod Trees
pub mod Meeting
