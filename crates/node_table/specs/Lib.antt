pub mod Walks
pub mod Firsts
pub mod Numbering
pub mod Building
pub mod Agreement
pub use Rattle.romfs_reader.specs.Readers
pub use Rattle.layer_paths.specs.Trees
pub use Rattle.node_reader.specs.Stacked
