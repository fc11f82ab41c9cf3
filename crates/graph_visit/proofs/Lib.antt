pub mod Visiting
pub mod Bundle
