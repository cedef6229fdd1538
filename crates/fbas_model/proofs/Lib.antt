pub mod Counting
pub mod Slices
pub mod QuorumLaw
pub mod Sizes
pub mod Lists
pub mod Unions
pub mod Mentioned
pub mod Tables
pub mod Marks
pub mod Kept
pub mod Renumbered
pub mod RestrictionLaw
pub mod Closure
pub mod Listed
pub mod WholeLaw
pub mod SortedNames
pub mod Chosen
mod LimitSamples
