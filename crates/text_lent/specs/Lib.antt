pub mod Lent
pub mod Padded
