mod LimitSamples
pub mod NamedLaws
pub mod MovedLogs
pub mod BesideLaws
pub mod Carried
pub mod CarrierLaws
pub mod CarryLaws
