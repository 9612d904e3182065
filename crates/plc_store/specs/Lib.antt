pub mod Spelling
pub mod Marking
pub mod Judging
pub mod Keeping
pub mod Changed
pub mod Showing
