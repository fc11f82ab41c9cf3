pub mod Differ
pub mod Examples
pub mod ImageBounds
pub mod ImageLaws
pub mod Lawful
pub mod Steps
