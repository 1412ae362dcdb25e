pub mod Names
pub mod Keys
pub mod Runs
pub mod Keyed
pub mod Noted
