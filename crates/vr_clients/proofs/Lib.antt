pub mod LastRequests
pub mod Noting
