pub mod Views
pub mod Memories
pub mod Pairs
pub mod SameLemmas
pub mod SameDecided
pub mod SortLemmas
pub mod NoInput
pub mod Settled
pub mod Compose
mod LawfulExample
