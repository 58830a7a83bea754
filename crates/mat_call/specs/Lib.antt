pub mod BoundedSinks
pub mod CallEnds
pub mod GivenShelves
pub mod LineWords
pub mod NamedFiles
