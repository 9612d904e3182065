pub mod Entries
mod ReadSlots
