pub mod Common
pub mod Pieces
pub mod Plain
pub mod Printable
pub mod Lowered
pub mod Distinct
