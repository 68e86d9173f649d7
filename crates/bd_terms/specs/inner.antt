pub mod Kept
pub mod Marked
