pub mod Common
mod JoinedLaws
pub mod JoinedMatroids
pub mod DualNests
pub mod UnionsOfUnions
pub mod FlatTrees
pub mod PartLists
mod WholeRuns
