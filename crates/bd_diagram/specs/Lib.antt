pub mod Flushes
pub mod Differs
pub mod Diagrams
pub mod Alike
pub mod Laws
pub mod inner
