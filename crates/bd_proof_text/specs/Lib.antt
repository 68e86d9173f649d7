pub mod Tokens
pub mod ProofText
pub mod inner
