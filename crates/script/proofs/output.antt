pub mod Showing
pub mod Ascii
