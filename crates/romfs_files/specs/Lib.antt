pub mod Unread
pub mod Reading
pub mod Data
pub mod Loaded
pub mod Opening
pub mod Files
pub mod Sealing
