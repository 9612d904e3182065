pub mod Fields
pub mod Readings
pub mod GoingOn
pub mod Marks
mod Copies
