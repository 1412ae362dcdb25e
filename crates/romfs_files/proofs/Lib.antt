pub mod Files
pub mod Unread
pub mod Loads
pub mod UnderDigest
