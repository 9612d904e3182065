pub mod Left
pub mod Staying
