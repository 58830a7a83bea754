pub mod Packings
pub mod Trees
pub mod Answers
pub mod FilledCopies
pub mod Rooms
