pub mod Literals
pub mod AlikeLaws
pub mod Statuses
pub mod Truth
pub mod Runs
pub mod News
pub mod StatusFrom
pub mod RatTruth
pub mod RatRuns
mod Samples
