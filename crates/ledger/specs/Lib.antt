pub mod Rows
pub mod Means
pub mod Lawful
