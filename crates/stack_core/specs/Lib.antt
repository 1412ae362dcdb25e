pub use Rattle.layer_paths.specs.Trees
