pub mod Readings
pub mod Lists
