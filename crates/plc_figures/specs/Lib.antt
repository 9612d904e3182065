pub mod Texts
pub mod Metrics
pub mod Readings
pub mod State
