pub mod Common
mod SummaryTotals
mod SummaryRanges
mod SummaryLines
mod SampleForms
mod SameLadders
mod SameUnions
mod OneSummary
