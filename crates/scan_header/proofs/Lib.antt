pub mod ReadLaws
pub mod RefusalLaws
pub mod SaidLaws
pub mod StatementLaws
