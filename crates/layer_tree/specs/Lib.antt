pub mod Laying
pub mod Members
pub mod Reading
pub mod Merging
pub use Rattle.layer_paths.specs.Rows
pub use Rattle.romfs_reader.specs.Images
pub use Rattle.layer_paths.specs.Trees
