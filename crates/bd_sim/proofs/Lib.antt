mod Chains
mod Cycles
mod ExactItems
pub mod Limits
pub mod Steps
mod Trails
