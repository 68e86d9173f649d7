pub mod Encoding
pub mod Made
pub mod Edges
pub mod inner
