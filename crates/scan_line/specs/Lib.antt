pub mod Line
pub mod Refused
pub mod Wrote
