pub mod Stages
pub mod Leading
pub mod Quieting
pub mod Rows
pub mod Releases
