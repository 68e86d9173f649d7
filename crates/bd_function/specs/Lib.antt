pub mod Flat
pub mod Flattened
pub mod Values
pub mod Tables
pub mod inner
