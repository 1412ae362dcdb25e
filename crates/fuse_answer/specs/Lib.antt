pub mod Answers
pub mod Listings
pub mod Names
pub mod Puts
pub mod Adding
pub use Rattle.fuse_wire.specs.Reads
pub use Rattle.reply_model.specs.Balances
