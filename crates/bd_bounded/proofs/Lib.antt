pub mod Extending
pub mod Answering
