pub mod replay
pub mod premo
