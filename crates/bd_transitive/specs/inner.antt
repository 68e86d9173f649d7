pub mod Spans
pub mod Rows
pub mod Links
pub mod EliminationGraph
