pub mod Pieces
pub mod Counts
pub mod GivenNames
pub mod Limits
mod NoPersons
