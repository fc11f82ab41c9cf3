pub mod Distinct
pub mod Lowest
pub mod Mem
pub mod Ready
pub mod Within
