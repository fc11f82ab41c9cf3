pub mod Holds
pub mod Outcome
pub mod Ways
