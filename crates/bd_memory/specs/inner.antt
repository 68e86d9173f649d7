pub mod Reads
pub mod Forwarding
