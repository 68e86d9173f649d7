pub mod Marking
pub mod Asked
pub mod Counted
pub mod Owned
pub mod Tallied
pub mod Paired
pub mod Conjuncts
