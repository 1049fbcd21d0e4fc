pub mod Requests
pub mod Parts
pub mod Covers
pub mod Lawful
