pub mod ClientHistory
