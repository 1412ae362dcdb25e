pub mod Stacked
pub mod Rows
pub mod Directories
pub mod Readers
pub mod Stamps
pub mod Held
pub mod Xattrs
