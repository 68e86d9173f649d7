pub mod Disk
pub mod Words
