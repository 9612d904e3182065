pub mod Ranges
pub mod Readings
