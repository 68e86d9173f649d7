pub mod Rechecked
pub mod inner
