pub mod Controls
pub mod Operations
pub mod Instructions
pub mod Programs
pub mod Sorted
pub mod Labels
pub mod Few
pub mod Units
