pub mod Passed
pub mod Believed
pub mod Sent
pub mod Records
