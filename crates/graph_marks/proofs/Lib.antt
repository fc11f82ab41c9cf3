pub mod Looking
pub mod OfKind
pub mod Setting
pub mod Nodes
