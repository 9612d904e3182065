pub mod Passing
pub mod RoundLaws
