pub mod Fronts
pub mod Files
pub mod Loops
pub mod WholeFiles
pub mod NewFiles
pub mod Written
