pub mod Held
pub mod Located
pub mod Roles
