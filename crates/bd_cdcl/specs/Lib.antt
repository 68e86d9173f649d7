pub mod Law
pub mod Asks
pub mod inner
