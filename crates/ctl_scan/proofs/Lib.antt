pub mod Laid
pub mod Restored
pub mod Over
pub mod Straight
pub mod Unforced
