pub mod Frames
pub mod Functions
pub mod Packing
pub mod Requests
pub mod Replies
