pub mod Counter
pub mod Positions
pub mod Views
pub mod Hands
