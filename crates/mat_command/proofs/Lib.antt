pub mod Common
mod Options
mod JobReading
mod NoCommands
