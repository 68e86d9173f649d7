pub mod Loaded
pub mod Read
pub mod Answered
pub mod Asked
