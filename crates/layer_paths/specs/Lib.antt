pub mod Names
pub mod Rows
pub mod Padded
pub mod Laying
pub mod Marks
pub mod Trees
