pub mod AnyKeeps
pub mod Trees
pub mod TreeLaws
pub mod Views
pub mod Joined
pub mod FlatUnions
pub mod Parts
