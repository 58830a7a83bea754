pub mod Limits
pub mod Instances
pub mod Validity
pub mod Soundness
pub mod Views
