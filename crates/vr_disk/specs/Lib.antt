pub mod Disks
pub mod Cuts
