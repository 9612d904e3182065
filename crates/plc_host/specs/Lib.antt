pub mod Failing
pub mod Requests
