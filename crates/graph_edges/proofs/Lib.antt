pub mod Chains
pub mod Laying
pub mod Linking
pub mod Rows
