mod LimitSamples
pub mod WordLaws
pub mod ListLaws
pub mod NumberLaws
pub mod TextLaws
pub mod BackLaws
pub mod DigitLaws
pub mod DigitSums
pub mod SaysLaws
pub mod LogLaws
