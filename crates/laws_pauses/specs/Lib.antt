pub mod Pauses
pub mod WorkedPauses
