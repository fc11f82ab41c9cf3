pub mod Barring
pub mod Examples
pub mod First
pub mod Noting
