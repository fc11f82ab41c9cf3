pub mod Lengths
pub mod Tables
