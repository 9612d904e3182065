pub mod Shelves
pub mod History
