pub mod GoingOn
pub mod Nonces
pub mod VisitReadings
pub mod StayingFrozen
pub mod GoingOnTogether
