pub mod Walking
pub mod Closing
pub mod Renaming
pub mod Carrying
pub mod Composing
pub mod Building
