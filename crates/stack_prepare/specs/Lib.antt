pub mod Layers
pub mod Checking
pub mod Preparing
