pub mod Levels
pub mod Trails
pub mod Watching
pub mod Watch
pub mod inner
