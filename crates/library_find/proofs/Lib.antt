pub mod Abstract
pub mod Answers
pub mod Examples
pub mod FindBounds
pub mod Lists
