pub mod Listings
pub mod Joined
pub mod Numbering
pub mod Computing
pub mod Modes
