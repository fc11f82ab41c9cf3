pub mod Drawing
pub mod Going
