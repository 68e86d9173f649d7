pub mod Grown
pub mod Membership
pub mod Numbers
pub mod Pushed
pub mod Results
pub mod Truths
