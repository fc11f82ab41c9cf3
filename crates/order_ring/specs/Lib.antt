pub mod Ring
pub mod Trail
