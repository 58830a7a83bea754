pub mod Common
pub mod NextRungs
pub mod LaddersExist
pub mod Changing
pub mod SplitSteps
pub mod RungSteps
