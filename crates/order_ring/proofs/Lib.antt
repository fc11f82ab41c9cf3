pub mod Back
pub mod Marking
pub mod Noting
pub mod Parts
pub mod Rings
pub mod Round
pub mod Trails
pub mod Copying
