pub mod Machines
pub mod DurableMoves
pub mod NeverCrashing
