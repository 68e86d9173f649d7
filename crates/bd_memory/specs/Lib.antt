pub mod Forward
pub mod Forwarded
pub mod inner
