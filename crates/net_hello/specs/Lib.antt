pub mod Hellos
pub mod Identity
pub mod Answering
