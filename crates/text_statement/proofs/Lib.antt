pub mod Examples
pub mod StatementLaws
pub mod PastLaws
