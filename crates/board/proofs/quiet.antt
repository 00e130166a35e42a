pub mod Reaching
pub mod Players
pub mod Leaps
pub mod Bands
pub mod Pairs
pub mod Stretches
pub mod Turns
