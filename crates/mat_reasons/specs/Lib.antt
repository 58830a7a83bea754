pub mod Brackets
pub mod Sums
pub mod FirstHeaviest
pub mod Classes
pub mod Naming
