pub mod Symbols
pub mod Formula
pub mod Made
pub mod Claims
pub mod Bounded
pub mod Laws
pub mod inner
