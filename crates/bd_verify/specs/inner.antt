pub mod Numbers
pub mod Edges
pub mod Questions
pub mod Answered
pub mod Reduced
