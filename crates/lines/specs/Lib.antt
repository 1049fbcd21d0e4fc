pub mod Answers
pub mod Lines
