pub mod Following
pub mod Judging
pub mod Rules
