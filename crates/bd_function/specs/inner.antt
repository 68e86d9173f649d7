pub mod Nested
pub mod Taken
pub mod Scalars
