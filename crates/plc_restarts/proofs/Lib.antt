pub mod Choosing
pub mod Once
