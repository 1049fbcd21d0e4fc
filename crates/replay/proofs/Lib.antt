pub mod Few
pub mod Stepping
pub mod Running
