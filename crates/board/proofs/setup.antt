pub mod Results
pub mod Guards
pub mod Ways
pub mod Keeping
