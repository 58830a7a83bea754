pub mod Common
pub mod OrderLemmas
pub mod OrderKeys
pub mod Climbing
pub mod Weighing
