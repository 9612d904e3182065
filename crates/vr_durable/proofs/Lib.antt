pub mod Saying
pub mod Living
