pub mod Propagation
pub mod Database
pub mod Log
pub mod Deletions
pub mod Text
pub mod Examples
pub mod inner
