pub mod Limits
pub mod Nodes
pub mod Graph
pub mod Numbers
pub mod Once
pub mod Meaning
pub mod Demand3
pub mod Complete
