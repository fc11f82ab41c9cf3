pub mod Decimal
pub mod Examples
pub mod Going
pub mod Laws
