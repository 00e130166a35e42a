pub mod Run
pub mod Lines
pub mod Number
pub mod Word
pub mod Grammar
pub mod Text
pub mod Output
pub mod Bytes
