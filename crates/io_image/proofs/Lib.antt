pub mod CallLaws
pub mod Fronts
pub mod Adding
pub mod Sameness
mod Masks
