pub mod Lines
pub mod Below
pub mod Walks
pub mod Faults
pub mod Examples
