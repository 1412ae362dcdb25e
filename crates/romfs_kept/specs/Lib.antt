pub mod Pieces
pub mod Reads
pub mod Footprint
pub mod Gathered
pub mod Walk
pub mod Tails
