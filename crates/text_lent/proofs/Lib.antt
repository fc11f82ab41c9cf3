pub mod Clears
pub mod LentLaws
pub mod Numbers
pub mod Zeros
