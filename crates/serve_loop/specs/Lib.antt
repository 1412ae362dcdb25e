pub mod Rounds
pub mod Serving
pub mod Steps
pub mod Buffers
pub mod Laws
pub mod Opening
pub mod Examples
