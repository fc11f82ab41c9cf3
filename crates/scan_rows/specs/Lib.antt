pub mod Room
pub mod Rows
pub mod Short
pub mod Sizes
pub mod Span
