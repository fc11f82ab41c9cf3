pub mod Fields
pub mod Records
