pub mod Entries
pub mod Sets
