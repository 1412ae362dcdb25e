pub mod Twins
pub mod Digests
pub mod Named
pub mod Kept
