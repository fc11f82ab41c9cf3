pub mod Free
pub mod Tables
