pub mod Walk
pub mod Carried
pub mod Ordered
pub mod Built
pub mod inner
