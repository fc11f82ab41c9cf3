pub mod Chains
pub mod Taking
