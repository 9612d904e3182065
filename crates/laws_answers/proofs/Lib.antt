pub mod Lists
pub mod Numbers
pub mod Traces
pub mod Moves
pub mod Views
pub mod Worked
