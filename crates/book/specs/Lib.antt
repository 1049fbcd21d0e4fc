pub mod Limits
pub mod Numbers
pub mod Bytes
pub mod Places
pub mod Codes
pub mod Events
pub mod Books
