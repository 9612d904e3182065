pub mod ApartLaws
pub mod PlaceLaws
pub mod GivenLaws
pub mod GatheredLaws
pub mod CarriedLaws
pub mod SwapLaws
