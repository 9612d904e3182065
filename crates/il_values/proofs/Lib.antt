pub mod RealValues
pub mod BitValues
pub mod Shifts
pub mod OpCodes
