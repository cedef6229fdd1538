mod LimitSamples
pub mod Apart
pub mod Choosing
pub mod CounterClauses
pub mod Finding
pub mod Lists
pub mod WrittenLaws
pub mod WritingOut
