pub mod Statuses
pub mod Texts
pub mod Notes
pub mod WholeFiles
pub mod Described
pub mod Certified
