pub mod Lengths
pub mod Stages
