pub mod CodeOfDurables
