pub mod Numbers
pub mod Paragraphs
pub mod SharedParts
