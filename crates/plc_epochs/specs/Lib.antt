pub mod Epochs
pub mod Recovering
pub mod Table
pub mod GoingOn
pub mod Visits
