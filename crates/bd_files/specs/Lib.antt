pub mod Devices
pub mod Pieces
pub mod Numbers
pub mod Noted
pub mod Shelf
pub mod Page
