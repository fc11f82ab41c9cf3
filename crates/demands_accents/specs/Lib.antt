pub mod StoreValid
pub mod Valid
pub mod ValuesValid
