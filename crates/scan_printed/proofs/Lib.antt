pub mod Examples
pub mod Laws
pub mod Lines
pub mod Padded
pub mod Sizes
