pub mod Readings
pub mod Texts
pub mod Metrics
pub mod State
pub mod Page
pub mod Sites
pub mod Answers
