pub mod CutTexts
pub mod Outcomes
pub mod Refusals
pub mod LoadedJobs
