pub mod Bundle
pub mod BundleWriter
pub mod Reading
