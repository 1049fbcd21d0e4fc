pub mod Objects
pub mod Calls
pub mod Lawful
pub mod Works
