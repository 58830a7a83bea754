pub mod Exceptions
pub mod ExceptionLaws
pub mod Teams
