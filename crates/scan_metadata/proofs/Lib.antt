pub mod EntryLaws
pub mod KeepLaws
pub mod LoopLaws
pub mod ScanLaws
pub mod ValuesLaws
