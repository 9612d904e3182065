pub mod DeclaredTables
pub mod Declaring
pub mod FirstFault
pub mod Resolution
pub mod TextFaults
pub mod Walk
