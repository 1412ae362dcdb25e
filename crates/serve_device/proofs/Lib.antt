pub mod Retries
pub mod Told
pub mod Reading
pub mod Order
pub mod Begun
pub mod Sums
