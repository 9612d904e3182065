pub mod Asking
pub mod Mirrored
pub mod Web
pub mod Lines
pub mod Sessions
pub mod Sending
pub mod Fetching
