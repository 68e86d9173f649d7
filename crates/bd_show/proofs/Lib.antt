pub mod Inputs
pub mod Loads
pub mod Readable
pub mod Refusals
pub mod Answers
pub mod Trails
pub mod Runs
pub mod Checks
pub mod Asked
pub mod Joins
pub mod Pieces
mod Done
