pub mod Spelled
pub mod Framed
pub mod Several
