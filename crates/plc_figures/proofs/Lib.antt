pub mod Chains
pub mod Numbered
