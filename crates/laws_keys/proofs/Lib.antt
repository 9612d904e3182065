pub mod Given
pub mod Placed
pub mod Proved
pub mod Ran
pub mod Runs
pub mod Worked
