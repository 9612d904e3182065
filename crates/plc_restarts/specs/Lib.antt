pub mod Outages
pub mod Leads
