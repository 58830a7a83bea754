pub mod FreeTables
pub mod TwoParts
