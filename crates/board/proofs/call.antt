pub mod Machine
pub mod Refusals
pub mod Leaving
pub mod Enough
pub mod Given
