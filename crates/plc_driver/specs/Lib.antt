pub mod Driving
pub mod Tending
pub mod Watching
