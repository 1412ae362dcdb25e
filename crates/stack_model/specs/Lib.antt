pub mod Stack
pub mod Listing
pub mod Numbers
pub mod Attributes
pub mod Examples
