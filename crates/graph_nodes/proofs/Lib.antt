pub mod Gathering
pub mod Growing
pub mod Looking
