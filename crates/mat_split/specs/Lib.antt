pub mod Ladders
pub mod Augmenting
