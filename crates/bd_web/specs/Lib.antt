pub mod Folder
pub mod Handed
pub mod Ran
pub mod Statuses
pub mod inner
