pub mod Answers
pub mod Outputs
pub mod Sources
pub mod Page
