pub mod Appending
pub mod Showing
