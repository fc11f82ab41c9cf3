pub mod Argument
pub mod Value
