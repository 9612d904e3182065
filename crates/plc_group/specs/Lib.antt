pub mod Lines
pub mod Values
pub mod Faults
pub mod Said
pub mod Identity
pub mod Sharing
