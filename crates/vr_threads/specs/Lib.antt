pub mod Patience
pub mod Keeping
pub mod Numbering
pub mod Observed
pub mod Trying
pub mod Working
