pub mod Dependencies
pub mod Promises
pub mod Seek
