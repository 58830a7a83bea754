pub mod Escaping
pub mod Markup
pub mod Names
pub mod Drawn
pub mod Colours
pub mod Attributes
