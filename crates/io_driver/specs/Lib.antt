pub mod Driver
