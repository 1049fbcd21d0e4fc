pub mod Kind
pub mod Joins
pub mod Text
