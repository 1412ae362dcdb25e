pub mod SampleTexts
pub use Rattle.romfs_format.specs.Rules
pub use Rattle.romfs_reader.specs.Images
pub mod Checks
pub mod Refusals
pub mod Texts
