pub mod Cycles
pub mod Evaluates
pub mod First
pub mod Names
