mod Files
mod Tries
pub mod Observing
