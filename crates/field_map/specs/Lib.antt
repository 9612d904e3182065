pub mod Filled
pub mod Field
pub mod Areas
pub mod Layouts
pub mod Asking
pub mod Rounds
pub mod Carried
