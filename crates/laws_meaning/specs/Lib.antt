pub mod Instructions
pub mod Laws
