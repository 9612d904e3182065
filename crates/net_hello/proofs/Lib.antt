pub mod Parties
pub mod Told
pub mod Readings
