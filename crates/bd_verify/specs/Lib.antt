pub mod Settled
pub mod Kept
pub mod Verdict
pub mod Decided
pub mod Asked
pub mod Agreement
pub mod Laws
pub mod inner
