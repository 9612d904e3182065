pub mod Scans
pub mod Journal
pub mod Published
pub mod Notices
