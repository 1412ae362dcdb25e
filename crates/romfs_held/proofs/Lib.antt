pub mod Fields
pub mod Runs
pub mod Fronts
pub mod Sums
pub mod Views
pub mod NameBytes
pub mod Copies
pub mod Rows
