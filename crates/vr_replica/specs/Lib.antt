pub mod Stepped
pub mod Ruled
pub mod Standing
pub mod Scans
