pub mod Texts
pub mod Alike
pub mod Heard
pub mod Readings
