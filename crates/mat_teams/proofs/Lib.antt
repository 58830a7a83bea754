pub mod TeamSets
