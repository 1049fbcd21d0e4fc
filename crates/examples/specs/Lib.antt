pub mod Book
pub mod Worked
