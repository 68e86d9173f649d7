pub mod Definition
pub mod Rows
pub mod Form
pub mod inner
