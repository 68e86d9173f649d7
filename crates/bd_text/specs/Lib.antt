pub mod CodeText
pub mod Faults
pub mod Grammar
pub mod Layout
pub mod Nodes
pub mod View
pub mod Written
pub mod inner
