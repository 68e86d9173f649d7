pub mod Env
pub mod Writes
