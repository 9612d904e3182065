pub mod Values
pub mod Stops
pub mod BitStrings
pub mod Operators
pub mod Spelled
pub mod Functions
pub mod OpCodes
