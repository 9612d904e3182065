pub mod Counts
pub mod Held
pub mod Lives
pub mod Past
pub mod Shelves
