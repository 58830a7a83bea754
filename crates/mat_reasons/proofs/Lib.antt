pub mod Common
pub mod Ranged
pub mod Negated
pub mod FirstHeaviest
