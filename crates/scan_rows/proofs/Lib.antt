pub mod Laws
pub mod Reading
pub mod ShortLaws
pub mod Values
