pub mod Paths
pub mod Ticks
pub mod Calls
pub mod Enabled
pub mod Published
