pub mod Waiting
pub mod Stages
pub mod Outboxes
pub mod Calls
