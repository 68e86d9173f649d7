pub mod Visits
pub mod Carrying
