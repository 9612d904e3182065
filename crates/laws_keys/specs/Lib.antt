pub mod Ways
pub mod Brought
pub mod Hellos
