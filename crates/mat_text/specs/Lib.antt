pub mod Called
pub mod Paragraphs
pub mod Shared
pub mod Texts
