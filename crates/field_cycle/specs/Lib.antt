pub mod Links
pub mod Notices
pub mod Passages
pub mod Signs
pub mod Stations
pub mod Rounds
pub mod Spans
