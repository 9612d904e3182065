pub mod Spellings
pub mod Performing
pub mod Cutting
