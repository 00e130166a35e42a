pub mod Encoding
pub mod Replies
