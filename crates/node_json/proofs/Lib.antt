mod LimitSamples
pub mod NamesInOrder
mod SeenNames
pub mod NameSets
pub mod JsonNumbers
pub mod Trees
pub mod KeyReading
pub mod SetReading
pub mod NodeReading
mod Gathering
pub mod Numbering
pub mod Placing
pub mod Soundness
pub mod Limits
pub mod Samples
pub mod Laws
pub mod OrgReading
pub mod OrgPlaces
pub mod OrgMarks
pub mod OrgOwned
pub mod IdReading
pub mod OrgSamples
pub mod GroupTexts
pub mod GroupNodes
pub mod GroupLoops
