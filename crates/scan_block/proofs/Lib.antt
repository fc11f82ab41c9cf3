pub mod BlockLaws
pub mod FarLaws
pub mod InsideLaws
pub mod Spans
