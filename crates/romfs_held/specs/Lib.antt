pub mod Blocks
pub mod Held
pub mod Images
