pub mod Releases
pub mod Book
pub mod Calls
