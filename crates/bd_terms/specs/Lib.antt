pub mod Graph
pub mod Denotation
pub mod Simplified
pub mod inner
pub mod Reaches
pub mod Renamed
pub mod Valid
