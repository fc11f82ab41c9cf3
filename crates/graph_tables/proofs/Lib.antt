pub mod Short
pub mod Tables
