pub mod Records
pub mod Ends
