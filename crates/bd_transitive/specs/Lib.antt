pub mod Edges
pub mod Orders
pub mod Elimination
pub mod Triangle
pub mod Clauses
pub mod inner
