pub mod Words
pub mod Tokens
pub mod Lines
pub mod Sorts
pub mod Laws
