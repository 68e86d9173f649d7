pub mod Roots
pub mod Answering
