pub mod Bases
