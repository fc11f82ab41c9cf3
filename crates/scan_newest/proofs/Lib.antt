pub mod ComesLaws
pub mod Examples
pub mod LessLaws
pub mod NewestLaws
