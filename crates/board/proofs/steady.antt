pub mod Going
pub mod Lines
pub mod Edges
pub mod Steadying
pub mod Exits
