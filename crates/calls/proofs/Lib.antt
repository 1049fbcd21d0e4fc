pub mod Words
pub mod Numbers
pub mod Said
pub mod Written
pub mod Making
pub mod Following
pub mod Jobs
