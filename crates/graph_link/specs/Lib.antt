pub mod Link
pub mod Stop
pub mod StopSeen
