pub mod Walks
pub mod Touched
pub mod Whole
pub mod Thinning
pub mod Times
pub mod MemberLoops
pub mod Decided
