pub mod Pipeline
pub mod Specification
