pub mod Common
pub mod OnceEach
pub mod ColourCuts
pub mod Ladders
