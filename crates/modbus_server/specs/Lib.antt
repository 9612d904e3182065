pub mod Sessions
pub mod Access
pub mod Values
pub mod Doubles
