pub mod Common
pub mod Draws
pub mod Classes
pub mod Validity
pub mod PairMade
