pub mod Chaining
pub mod Counting
pub mod Releasing
pub mod Taken
pub mod Turns
pub mod Zeros
