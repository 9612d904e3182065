pub mod Numbers
pub mod Reals
pub mod Literals
pub mod Decimals
pub mod Texts
