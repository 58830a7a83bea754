pub mod Queries
pub mod Answers
pub mod PricedRungs
pub mod CostlyRows
