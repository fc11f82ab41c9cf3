pub mod Library
pub mod Image
pub mod ImageWriter
