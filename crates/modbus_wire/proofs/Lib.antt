pub mod Lengths
pub mod Units
pub mod Feeds
pub mod Cells
pub mod RequestLaws
pub mod ReplyLaws
