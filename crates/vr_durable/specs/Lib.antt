pub mod Faults
pub mod Standing
pub mod Calls
pub mod Lives
