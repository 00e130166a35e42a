pub mod Keys
pub mod Rows
pub mod Table
pub mod Storing
pub mod Ranges
pub mod Packing
