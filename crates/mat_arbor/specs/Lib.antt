pub mod Heads
pub mod Arborescences
pub mod Growing
pub mod Held
pub mod Halves
