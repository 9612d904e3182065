pub mod Lines
pub mod Meaning
pub mod Telling
