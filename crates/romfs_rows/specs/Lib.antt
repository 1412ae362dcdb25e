pub mod Faults
pub mod Order
pub mod Runs
pub mod Listed
