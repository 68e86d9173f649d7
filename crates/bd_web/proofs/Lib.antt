pub mod Parts
pub mod Endings
pub mod Handing
pub mod Coming
