pub mod Nexts
pub mod Rows
pub mod Saying
