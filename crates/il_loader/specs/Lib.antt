pub mod Tables
pub mod NameTables
pub mod Reading
pub mod Judging
pub mod Images
pub mod Linked
pub mod Actions
