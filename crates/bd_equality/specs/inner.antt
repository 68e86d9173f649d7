pub mod Split
pub mod Means
pub mod Steps
pub mod Sets
pub mod Apart
pub mod Rows
