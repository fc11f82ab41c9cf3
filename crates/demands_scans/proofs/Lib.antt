pub mod Accents
pub mod Loops
pub mod ScanNumbers
pub mod MetadataNumbers
pub mod NewestRight
pub mod WholeDependencies
pub mod WholeMetadata
pub mod WholeNumbers
