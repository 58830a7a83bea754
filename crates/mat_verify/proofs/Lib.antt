pub mod Common
pub mod Unwitnessed
mod RungAnswers
