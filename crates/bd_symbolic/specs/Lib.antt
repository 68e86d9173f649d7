pub mod World
pub mod DesignSymbols
pub mod Widened
pub mod Terms
pub mod Made
pub mod Symbolic
pub mod States
pub mod inner
