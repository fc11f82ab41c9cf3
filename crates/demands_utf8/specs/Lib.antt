pub mod Utf8Right
