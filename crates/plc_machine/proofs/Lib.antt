pub mod Restarts
pub mod Starting
pub mod Answers
