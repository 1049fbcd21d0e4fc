pub mod Lengths
pub mod Reading
