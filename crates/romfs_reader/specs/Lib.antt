pub mod Readers
pub mod Walks
pub mod Ends
pub mod Images
