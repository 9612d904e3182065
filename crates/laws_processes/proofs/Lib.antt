pub mod Going
pub mod Starting
pub mod Files
pub mod Saves
pub mod Clients
