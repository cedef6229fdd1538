mod LimitSamples
mod NameLists
pub mod ListLaws
mod WordLaws
mod WordMixes
mod WordFinds
mod WordRests
mod WordCounts
mod WordFill
mod SetOrder
