pub mod ArgumentLaws
pub mod Examples
pub mod JoinLaws
pub mod ValueLaws
pub mod PartLaws
