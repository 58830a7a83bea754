pub mod Once
pub mod Rainbow
pub mod Assignments
