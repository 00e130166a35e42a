pub mod Tests
pub mod Checks
pub mod Follows
pub mod Numbers
mod Cycle
pub mod Arrivals
pub mod Strides
pub mod Rates
pub mod Leaps
pub mod Modes
pub mod Setups
pub mod Flips
pub mod RateCards
