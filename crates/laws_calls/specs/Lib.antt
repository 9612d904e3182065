pub mod Machines
pub mod Lines
pub mod Calls
pub mod Laws
pub mod Controller
