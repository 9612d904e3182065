pub mod HexTexts
pub mod Imaged
pub mod Numbered
pub mod Places
pub mod UnitPrograms
pub mod UnitMeaning
pub mod UnitTold
pub mod UnitWalk
pub mod Programs
pub mod Statuses
mod OneMeaning
