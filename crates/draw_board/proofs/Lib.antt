pub mod Sums
pub mod Rising
pub mod Numbers
pub mod Rule
