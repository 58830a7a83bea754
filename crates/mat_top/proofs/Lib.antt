pub mod Common
pub mod Refusing
pub mod Ending
mod Accepted
mod PayableCosts
mod LoadedJobs
mod JobTexts
mod Batches
