pub mod Added
pub mod Walked
pub mod Valued
pub mod Taken
pub mod Parsed
pub mod Agreed
pub mod WorkedLines
pub mod Named
