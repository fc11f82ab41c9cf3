pub mod Block
pub mod Left
