pub mod Counting
pub mod Decoded
pub mod Lifted
pub mod inner
