pub mod Sums
pub mod Weighed
pub mod Lines
