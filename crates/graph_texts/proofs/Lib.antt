pub mod Scans
pub mod Under
