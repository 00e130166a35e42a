pub mod Numbers
pub mod Door
