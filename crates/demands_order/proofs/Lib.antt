pub mod OrderCycle
pub mod OrderDemand
pub mod OrderLeast
pub mod OrderLists
pub mod OrderOnly
pub mod OrderPlaces
pub mod OrderValid
