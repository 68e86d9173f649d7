pub mod Passes
pub mod Deletions
pub mod Deleting
pub mod Search
pub mod Analysis
pub mod Analyses
pub mod Descents
