mod LimitSamples
pub mod ChangeLists
pub mod Following
pub mod KnownUnmet
pub mod Limits
pub mod EditLaws
pub mod ScriptLaws
pub mod NamePlaces
pub mod NewNames
pub mod Brought
pub mod NamesStay
pub mod Touching
pub mod LineLaws
