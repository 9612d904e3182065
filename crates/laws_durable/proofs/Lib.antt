pub mod Settling
pub mod Lives
pub mod Moving
pub mod Steady
