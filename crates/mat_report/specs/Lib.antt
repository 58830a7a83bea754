pub mod Reports
pub mod ReportEnds
pub mod TellsInWords
pub mod Pictures
