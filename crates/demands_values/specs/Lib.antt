pub mod Behind
pub mod Demand2
