pub mod Quiet
pub mod Trying
pub mod Scanning
pub mod Actions
pub mod Turns
pub mod Ending
pub mod Going
