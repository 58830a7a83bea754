pub mod Arborescences
pub mod Growth
pub mod Branches
pub mod Spanning
