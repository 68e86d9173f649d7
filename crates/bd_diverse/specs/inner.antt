pub mod Walked
pub mod Applied
pub mod Spread
pub mod Valued
pub mod Rows
