pub mod Content
pub mod Kinds
pub mod Reading
pub mod Reads
pub mod Text
pub mod inner
