pub mod Utf8Chars
pub mod Utf8Right
pub mod Utf8Instance
