pub mod Logic
pub mod SavedWords
pub mod Bistables
pub mod Edges
pub mod Counters
pub mod Timers
pub mod Outputs
pub mod KindLaws
mod Known
