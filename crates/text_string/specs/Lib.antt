pub mod Str
