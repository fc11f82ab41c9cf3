pub mod Items
pub mod Table
