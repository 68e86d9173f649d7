pub mod Built
pub mod First
pub mod Steps
