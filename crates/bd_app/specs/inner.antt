pub mod Asked
pub mod ProofLine
pub mod Faults
pub mod Loaded
pub mod Saved
pub mod Done
pub mod Completed
