pub mod CommandLines
pub mod Commands
pub mod Views
pub mod JobLists
pub mod JobLines
