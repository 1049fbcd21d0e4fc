pub mod Limits
pub mod Counts
pub mod Balance
pub mod KindLaws
pub mod Texts
