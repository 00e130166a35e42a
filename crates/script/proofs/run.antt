pub mod Runs
pub mod Held
pub mod Cards
pub mod Ascii
