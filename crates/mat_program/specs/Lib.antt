pub mod Ends
pub mod Tasks
pub mod Traces
pub mod Views
