pub mod Minors
pub mod MaximalSubsetLaws
pub mod ContractionLaws
pub mod DualLaws
pub mod MinorLaws
pub mod DualRows
