pub mod StrLaws
