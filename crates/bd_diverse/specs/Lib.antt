pub mod Positive
pub mod Diverse
pub mod Marked
pub mod Laws
pub mod inner
