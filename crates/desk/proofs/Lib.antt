pub mod Marking
pub mod Closing
pub mod Joining
