pub mod Node
pub mod Truth
pub mod Graph
pub mod Form
pub mod Values
pub mod Inside
pub mod Gathered
pub mod inner
