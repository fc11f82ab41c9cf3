pub mod Accents
pub mod Newest
pub mod Refusals
pub mod Whole
