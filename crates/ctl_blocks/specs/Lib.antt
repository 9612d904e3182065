pub mod Words
pub mod Bistables
pub mod Edges
pub mod Counters
pub mod Timers
pub mod Blocks
