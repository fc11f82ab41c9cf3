pub mod Metadata
pub mod Promises
pub mod Values
