pub mod Stops
pub mod Headline
pub mod Openings
pub use Rattle.devices.specs.States
pub use Rattle.stack_prepare.specs.Layers
pub use Rattle.stack_prepare.specs.Preparing
pub use Rattle.serve_loop.specs.Serving
pub mod Kept
