pub mod Symbols
pub mod Compared
pub mod Told
