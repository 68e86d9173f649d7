pub mod Whole
pub mod Found
pub mod Asked
