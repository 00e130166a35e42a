pub mod Staying
pub mod Rounding
pub mod Fine
pub mod Bands
