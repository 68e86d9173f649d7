pub mod Steps
pub mod Ready
pub mod Rising
pub mod Hints
pub mod Store
pub mod Deletions
