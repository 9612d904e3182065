pub mod Hmac
pub mod Keys
pub mod Challenges
pub mod Sealing
pub mod Meeting
pub mod Forging
