pub mod Sums
pub mod WordStates
pub mod Outputs
pub mod Workers
pub mod Joined
pub mod Placing
pub mod Tickets
