pub mod Examples
pub mod Sorting
