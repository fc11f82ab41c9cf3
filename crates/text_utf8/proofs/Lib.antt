pub mod Examples
pub mod LargestLaws
pub mod Utf8Laws
