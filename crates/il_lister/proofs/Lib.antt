pub mod Cases
pub mod Numbers
pub mod Parts
pub mod Sections
pub mod Rows
