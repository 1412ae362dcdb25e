pub mod Sets
pub mod Pages
pub mod Words
pub mod Listed
pub mod Climb
pub mod Names
pub mod Once
pub mod Slots
