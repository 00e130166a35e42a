pub mod PlayingLaws
pub mod Staging
pub mod Commands
pub mod Steps
pub mod Found
pub mod Bits
pub mod Full
