mod OwnState
mod Telling
mod Restarting
mod Table
mod Ending
mod CatchingUp
mod OnNewState
pub mod UnfitResponse
