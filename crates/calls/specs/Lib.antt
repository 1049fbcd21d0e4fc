pub mod Values
pub mod Written
pub mod Reading
pub mod Lists
pub mod Plays
pub mod Quiet
pub mod Jobs
