pub mod Counting
pub mod Rests
pub mod Words
