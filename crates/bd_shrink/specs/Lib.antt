pub mod Remnant
pub mod Part
pub mod Apart
pub mod Shrunk
pub mod inner
