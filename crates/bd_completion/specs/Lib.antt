pub mod Kept
pub mod Answer
