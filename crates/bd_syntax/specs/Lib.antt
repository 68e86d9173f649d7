pub mod Completion
pub mod Forms
pub mod Name
pub mod Reading
pub mod WellFormed
pub mod Words
