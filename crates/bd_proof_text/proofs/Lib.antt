pub mod Decimals
pub mod Pieces
pub mod Items
pub mod Signs
pub mod Clauses
pub mod Steps
pub mod Refutes
