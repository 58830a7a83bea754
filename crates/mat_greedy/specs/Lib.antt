pub mod Order
pub mod Greedy
