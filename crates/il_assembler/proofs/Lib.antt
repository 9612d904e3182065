pub mod SettledLines
pub mod Encoding
pub mod Literals
pub mod Gathered
pub mod Addresses
pub mod Labels
pub mod FirstFault
