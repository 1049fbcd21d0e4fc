pub mod Adds
pub mod Printouts
pub mod Readable
pub mod Contents
pub mod Tenancy
pub mod Books
