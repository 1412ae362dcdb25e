pub mod Names
pub mod Nodes
pub mod Noting
pub mod Pushed
pub mod Stamps
pub mod NodeLists
pub mod Shared
