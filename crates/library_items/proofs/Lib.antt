pub mod OfNumber
pub mod Storing
pub mod Ahead
pub mod Parts
pub mod Told
pub mod Listing
pub mod Through
