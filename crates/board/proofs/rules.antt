pub mod Broken
pub mod Present
pub mod Passing
