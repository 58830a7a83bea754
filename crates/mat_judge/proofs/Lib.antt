pub mod Common
pub mod Told
pub mod Pieces
pub mod Noting
pub mod Judging
