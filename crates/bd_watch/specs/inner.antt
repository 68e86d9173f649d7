pub mod Watchers
pub mod Visits
pub mod Loading
pub mod Reasons
