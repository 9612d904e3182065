pub mod Machines
pub mod Beginnings
pub mod LostDisks
pub mod WorkedLosses
