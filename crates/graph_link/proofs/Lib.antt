pub mod Naming
pub mod Saving
pub mod Single
pub mod Handing
