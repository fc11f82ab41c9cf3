pub mod Largest
pub mod Utf8
