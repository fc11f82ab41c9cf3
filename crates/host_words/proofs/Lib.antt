pub mod RecordLaws
pub mod WordsLaws
