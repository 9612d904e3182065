pub mod Owned
pub mod Restored
pub mod Outcome
pub mod Prepared
pub mod Changing
