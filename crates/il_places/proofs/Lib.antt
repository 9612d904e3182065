pub mod Last
pub mod Nowhere
pub mod Walk
