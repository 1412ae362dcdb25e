pub mod Order
pub mod Rows
pub mod Fronts
pub mod Added
pub mod Halves
pub mod Narrow
pub mod Places
