pub mod ExactCounts
pub mod StepsJoin
pub mod Trace
pub mod inner
