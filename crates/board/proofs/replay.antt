pub mod Cuts
pub mod Replays
pub mod Kinds
