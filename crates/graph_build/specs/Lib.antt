pub mod Between
pub mod Result
pub mod Told
pub mod ToldSeen
