pub mod Examples
pub mod ReachLaws
pub mod StatementLaws
