pub mod Lawful
pub mod Performs
pub mod Calls
pub mod ToCome
