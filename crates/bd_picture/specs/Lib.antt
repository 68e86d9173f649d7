pub mod Cells
pub mod Page
pub mod Seen
pub mod Sentence
pub mod Claims
