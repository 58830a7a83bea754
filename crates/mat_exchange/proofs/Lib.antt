pub mod Common
pub mod TightPathSteps
pub mod WeightChanges
pub mod CutsWithoutSlack
pub mod LeastSlacks
pub mod RowExchanges
mod ComputedRows
pub mod RowTables
pub mod TableSteps
mod EmptiedRows
mod MissingElements
pub mod HeaviestAddable
pub mod SlackParts
pub mod WeightBounds
pub mod Fringes
pub mod NewMembers
mod PutElements
pub mod Growing
pub mod GrowthChanges
pub mod GrowthEntries
pub mod HeaviestMembers
pub mod FringeTops
pub mod WordSearches
pub mod Raising
pub mod ChangesSoFar
pub mod GrowthSteps
pub mod EnteringSteps
pub mod EndingSteps
pub mod GrownSplits
pub mod StuckSearches
pub mod HeaviestExchanges
pub mod GrownSplitsExist
