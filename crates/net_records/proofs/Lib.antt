pub mod Bodies
pub mod Formats
pub mod Going
pub mod Turns
