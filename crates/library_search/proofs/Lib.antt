pub mod Loops
pub mod Submodules
pub mod Ways
