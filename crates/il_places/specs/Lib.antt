pub mod Names
pub mod Origins
pub mod Places
pub mod Located
